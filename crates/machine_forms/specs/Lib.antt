pub mod Forms
pub mod Going
