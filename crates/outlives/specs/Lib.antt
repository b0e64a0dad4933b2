pub mod Outliving
pub mod Collecting
