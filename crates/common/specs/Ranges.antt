-- Ranges of bytes and other numbers, as tests.
use Rattle.std.specs.Prelude.{Bool, ◌&&◌, ℕ, leb}

-- lo ≤ b ≤ hi, in the documents' words %xlo-hi
unfoldable pub within : ℕ → ℕ → ℕ → Bool
within lo hi b = leb lo b && leb b hi

-- RFC 8259 section 6: DIGIT = %x30-39
unfoldable pub is_digit : ℕ → Bool
is_digit b = within 0x30 0x39 b
