-- Whole budgets in one go.
pub mod BudgetBooks
pub mod BudgetLaws
pub mod Budgets
pub mod Skipped
