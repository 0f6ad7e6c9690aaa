pub mod Texts
pub mod Bodies
pub mod Dags
pub mod Looks
pub mod Calls
pub mod WorkedPremises
