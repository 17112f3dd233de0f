-- The code's answers as those of the definitions.
use Rattle.std.specs.Prelude.{ℕ, Result, Ok, Err}
use Rattle.base64url_rules.specs.Outcome.{Decoded}
use Rattle.base64url_decoding.specs.declared.DecodeError.{DecodeError}

abbrev pub refused : DecodeError → Decoded
refused (DecodeError.Fault place) = Decoded.Fault place
refused DecodeError.Short = Decoded.Short

abbrev pub decoded : Result ℕ DecodeError → Decoded
decoded (Ok n) = Decoded.Bytes n
decoded (Err e) = refused e
