-- Laws for the code's proofs.
pub mod ClassLaws
pub mod ScanLaws
pub mod DigitLaws
pub mod FormLaws
pub mod EscapeLaws
pub mod CharLaws
pub mod OctetLaws
