pub mod Outliving
pub mod Choosing
pub mod Components
pub mod Meeting
