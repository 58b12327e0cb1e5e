mod Parsing
mod SaidLaws
mod Steps
mod TreeSteps
mod SideSteps
mod PairSteps
