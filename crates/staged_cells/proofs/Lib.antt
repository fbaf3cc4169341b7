mod Examples
pub mod Sent
pub mod Places
pub mod Held
pub mod Lists
pub mod Links
pub mod Entrances
pub mod Designs
pub mod StageCells
pub mod CellNumbers
pub mod ReadPorts
pub mod Firings
pub mod PortValues
pub mod Runs
pub mod Handed
pub mod Grows
