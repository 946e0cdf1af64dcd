-- Laws and theorems that belong to no one function.
pub mod PlannerExits
pub mod PlannedExactly
pub mod TraysComeOut
