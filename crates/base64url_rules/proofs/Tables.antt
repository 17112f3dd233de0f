-- The tables that the code looks values and characters up in: an entry for each number below a bound, in order.
use Rattle.std.specs.Prelude.{◌≡◌, cond, List, [], ◌∷◌, ℕ, zero, suc, ◌+◌, ◌%◌, ◌<◌, ℤ, pos, negsuc, get_or}
use Rattle.std.proofs.Common.{ap, sym, ◌∙◌, add-zero, zero-add, add-suc, suc-add, le_of_suc-le-suc, not-suc-le-zero}
use Rattle.base64url_rules.specs.Alphabet.{value, character, in_alphabet}

-- what f gives for the n numbers from i on
unfoldable pub entries : {A : Type 0} → (ℕ → A) → ℕ → ℕ → List A
entries f i zero = []
entries f i (suc n) = f i ∷ entries f (suc i) n

-- the value of a character; outside the alphabet a number below 0, -1 and -2 in turn
unfoldable pub signed : ℕ → ℤ
signed c = cond (in_alphabet c) (pos (value c)) (negsuc (c % 2))

unfoldable pub values : List ℤ
values = entries signed 0 256

unfoldable pub characters : List ℕ
characters = entries character 0 64

from : {A : Type 0} (z : A) (f : ℕ → A) (i n k : ℕ) → k < n → get_or (entries f i n) k z ≡ f (i + k)
unfolding entries
from z f i zero k h = absurd (not-suc-le-zero h)
from z f i (suc n) zero h = ap f (sym (add-zero i))
from z f i (suc n) (suc k) h = from z f (suc i) n k (le_of_suc-le-suc h) ∙ ap f (suc-add i k ∙ sym (add-suc i k))

pub entry : {A : Type 0} (z : A) (f : ℕ → A) (n k : ℕ) → k < n → get_or (entries f 0 n) k z ≡ f k
entry z f n k h = from z f 0 n k h ∙ ap f (zero-add k)

-- two functions with equal tables give the same for each number below the bound
pub agree : (f g : ℕ → ℕ) (n k : ℕ) → entries f 0 n ≡ entries g 0 n → k < n → f k ≡ g k
agree f g n k e h = sym (entry 0 f n k h) ∙ ap (λ (l : List ℕ). get_or l k 0) e ∙ entry 0 g n k h
