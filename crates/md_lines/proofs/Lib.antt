pub mod Places
pub mod Bars
pub mod LinesRead
pub mod Wholes
pub mod KindTexts
pub mod PiecesRead
pub mod NamesRead
