pub mod NormalText
