pub mod Hmac
pub mod HmacLaws
pub mod Examples
