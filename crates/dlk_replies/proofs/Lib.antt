pub mod Fits
pub mod TextAnswers
pub mod CarriedOut
pub mod Ends
