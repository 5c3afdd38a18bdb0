-- What one file draws of the generator.
use Rattle.std.proofs.Common.{◌≡◌, ℕ, suc, ◌+◌, ◌-◌, ◌%◌, List, ap, sym, ◌∙◌, arith, refl}
use Rattle.rand_pcg.specs.Lcg.{Lcg, started, increment_of}
use Rattle.rand_pcg.specs.Pcg.{multiplier_64, pcg32}
use Rattle.fts_load.specs.Sources.{generator_behind, rising_bytes, source_bytes}

-- before the first file
pub none_drawn : (number : ℕ) → started 64 multiplier_64 number (increment_of 64 1) ≡ generator_behind number 0
unfolding generator_behind
none_drawn number = refl

-- behind one file more
pub one_drawn : (number made : ℕ) → generator_behind number (made + 1) ≡ (pcg32 (pcg32 (generator_behind number made)).1).1
unfolding generator_behind
one_drawn number made = let on : made + 1 ≡ suc made = omega arith in ap (generator_behind number) on

-- the content of the next file
pub bytes_drawn : (number made : ℕ) → source_bytes number (made + 1)
    ≡ rising_bytes ((pcg32 (pcg32 (generator_behind number made)).1).0 % 256) ((pcg32 (generator_behind number made)).0 % 4096)
unfolding source_bytes
bytes_drawn number made =
    let back : (made + 1) - 1 ≡ made = omega arith in
    ap (λ (k : ℕ). rising_bytes ((pcg32 (pcg32 (generator_behind number k)).1).0 % 256) ((pcg32 (generator_behind number k)).0 % 4096)) back

-- where the generator stands behind two words
pub drawn_on : (number made one two : ℕ) (now mid new : Lcg) → now ≡ generator_behind number made → (one, mid) ≡ pcg32 now → (two, new) ≡ pcg32 mid
    → new ≡ generator_behind number (made + 1)
drawn_on number made one two now mid new is first second =
    ap (λ (p : ℕ × Lcg). p.1) second ∙ ap (λ (g : Lcg). (pcg32 g).1) (ap (λ (p : ℕ × Lcg). p.1) first ∙ ap (λ (g : Lcg). (pcg32 g).1) is)
    ∙ sym (one_drawn number made)

-- bytes that rise by these two words are the next file's
pub drawn_bytes : (number made one two : ℕ) (now mid new : Lcg) (bytes : List ℕ) → now ≡ generator_behind number made → (one, mid) ≡ pcg32 now → (two, new) ≡ pcg32 mid
    → bytes ≡ rising_bytes (two % 256) (one % 4096) → bytes ≡ source_bytes number (made + 1)
drawn_bytes number made one two now mid new bytes is first second rise =
    let size : one ≡ (pcg32 (generator_behind number made)).0 = ap (λ (p : ℕ × Lcg). p.0) first ∙ ap (λ (g : Lcg). (pcg32 g).0) is in
    let start : two ≡ (pcg32 (pcg32 (generator_behind number made)).1).0 =
    ap (λ (p : ℕ × Lcg). p.0) second ∙ ap (λ (g : Lcg). (pcg32 g).0) (ap (λ (p : ℕ × Lcg). p.1) first ∙ ap (λ (g : Lcg). (pcg32 g).1) is) in
    rise ∙ ap (λ (w : ℕ). rising_bytes (w % 256) (one % 4096)) start
    ∙ ap (λ (w : ℕ). rising_bytes ((pcg32 (pcg32 (generator_behind number made)).1).0 % 256) (w % 4096)) size
    ∙ sym (bytes_drawn number made)
