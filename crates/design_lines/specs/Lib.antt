pub mod PlanLines
pub mod Lines
pub mod machine
