pub mod ExprFolds
pub mod StatementFolds
pub mod TypedFolds
