pub mod Limits
pub mod Stalls
pub mod Printed
pub mod Flags
pub mod Timetable
pub mod machine
