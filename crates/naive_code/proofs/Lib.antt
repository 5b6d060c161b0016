pub mod WorkedCode
