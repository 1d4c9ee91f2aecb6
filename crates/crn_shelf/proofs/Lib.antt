mod SystemRows
mod Searched
mod ShelfKinds
mod Answered
mod Budgets
mod Gradual
mod Joins
mod Prelude
