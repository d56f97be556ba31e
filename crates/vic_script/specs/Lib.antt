pub mod VicCalls
