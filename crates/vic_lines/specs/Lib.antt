pub mod VicLines
