pub mod TakenRows
pub mod Symbols
pub mod RecordAnswers
pub mod OneRecord
pub mod Written
pub mod CarriedOut
