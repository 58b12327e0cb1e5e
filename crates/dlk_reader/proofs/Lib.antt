mod Tops
pub mod Agree
mod Reducing
mod OperandSteps
mod ItemSteps
mod HolderSteps
pub mod Commas
mod Tokens
