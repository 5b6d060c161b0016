pub mod Bytes
pub mod Splits
pub mod SlotTexts
pub mod TextPieces
pub mod Tellings
pub mod FormTexts
pub mod Declaring
pub mod Numbering
