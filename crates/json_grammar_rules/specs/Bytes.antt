-- Classes of bytes and of code points, as tests, and the numbers that forms of several bytes stand for.
use Rattle.std.specs.Prelude.{Bool, cond, ◌&&◌, ◌||◌, ℕ, ◌+◌, ◌-◌, ◌*◌, eqb}
-- within: %xlo-hi; is_digit: DIGIT = %x30-39
unfoldable pub use Rattle.common.specs.Ranges.{within, is_digit}

-- RFC 8259 section 2: space, horizontal tab, line feed, carriage return
unfoldable pub is_ws : ℕ → Bool
is_ws b = eqb b 0x20 || eqb b 0x09 || eqb b 0x0A || eqb b 0x0D

-- RFC 8259 section 6: digit1-9 = %x31-39, e = %x65 / %x45, and minus / plus
unfoldable pub is_digit19 : ℕ → Bool
is_digit19 b = within 0x31 0x39 b

unfoldable pub is_e : ℕ → Bool
is_e b = eqb b 0x65 || eqb b 0x45

unfoldable pub is_sign : ℕ → Bool
is_sign b = eqb b 0x2D || eqb b 0x2B

-- RFC 8259 section 7: unescaped = %x20-21 / %x23-5B / %x5D-10FFFF, a test of code points
unfoldable pub is_unescaped : ℕ → Bool
is_unescaped x = within 0x20 0x21 x || within 0x23 0x5B x || within 0x5D 0x10FFFF x

-- RFC 8259 section 7: HEXDIG of a `\u` escape, which is 0-9, A-F or a-f, and its value
unfoldable pub is_hex : ℕ → Bool
is_hex b = is_digit b || within 0x41 0x46 b || within 0x61 0x66 b

unfoldable pub hex_val : ℕ → ℕ
hex_val b = cond (is_digit b) (b - 0x30) (cond (within 0x41 0x46 b) (b - 0x37) (b - 0x57))

-- 4HEXDIG, and the number that the four digits write
unfoldable pub all_hex : ℕ → ℕ → ℕ → ℕ → Bool
all_hex a b c d = is_hex a && (is_hex b && (is_hex c && is_hex d))

unfoldable pub hex4 : ℕ → ℕ → ℕ → ℕ → ℕ
hex4 a b c d = ((hex_val a * 16 + hex_val b) * 16 + hex_val c) * 16 + hex_val d

-- RFC 3629 section 4: UTF8-tail = %x80-BF
unfoldable pub is_tail : ℕ → Bool
is_tail b = within 0x80 0xBF b

-- RFC 3629 section 3: the code point of a form of two, three and four bytes, its x bits in order
unfoldable pub code2 : ℕ → ℕ → ℕ
code2 b c = (b - 0xC0) * 64 + (c - 0x80)

unfoldable pub code3 : ℕ → ℕ → ℕ → ℕ
code3 b c d = (b - 0xE0) * 4096 + (c - 0x80) * 64 + (d - 0x80)

unfoldable pub code4 : ℕ → ℕ → ℕ → ℕ → ℕ
code4 b c d e = (b - 0xF0) * 262144 + (c - 0x80) * 4096 + (d - 0x80) * 64 + (e - 0x80)

-- Surrogates (Unicode, RFC 3629 section 3): high D800-DBFF, low DC00-DFFF, and the code point of a pair
unfoldable pub is_high : ℕ → Bool
is_high x = within 0xD800 0xDBFF x

unfoldable pub is_low : ℕ → Bool
is_low x = within 0xDC00 0xDFFF x

unfoldable pub is_surrogate : ℕ → Bool
is_surrogate x = is_high x || is_low x

unfoldable pub pair_code : ℕ → ℕ → ℕ
pair_code h l = 0x10000 + (h - 0xD800) * 1024 + (l - 0xDC00)
