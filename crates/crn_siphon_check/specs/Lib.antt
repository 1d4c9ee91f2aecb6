pub mod Siphons
pub mod Prefixes
pub mod Trees
pub mod Preorder
pub mod PlanCode
pub mod SiphonVisits
pub mod Answers
