pub mod EngineWrite
