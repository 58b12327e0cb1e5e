mod Kids
mod Parts
mod Gained
mod Leaves
mod Members
mod Unlike
mod Used
mod Declared
