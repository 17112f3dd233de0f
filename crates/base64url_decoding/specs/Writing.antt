-- What the parts of the code that write say of a text, the buffer before and after, and their answer.
use Rattle.std.specs.Prelude.{◌≡◌, Bool, true, List, ℕ}
use Rattle.base64url_rules.specs.Base64url.{strict, decode}
use Rattle.common.specs.Buffer.{laid}

pub record Decodes (text out₀ : List ℕ) (ok : Bool) (out : List ℕ) : Type 0 where
  pub answer : ok ≡ strict text
  pub bytes : ok ≡ true → out ≡ laid (decode text) out₀
