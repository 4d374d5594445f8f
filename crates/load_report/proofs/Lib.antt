pub mod LoadReport
