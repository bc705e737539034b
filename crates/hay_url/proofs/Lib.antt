pub mod Cookies
pub mod Languages
pub mod Templates
pub mod Decimals
pub mod Digits
pub mod Urls
