pub mod AddressRule
