pub mod VicCommands
