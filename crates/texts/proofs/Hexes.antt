-- One more byte in hexadecimal.
use Rattle.std.proofs.Common.{◌≡◌, ℕ, ◌+◌, ◌-◌, ◌/◌, ◌%◌, ◌^◌, ◌<◌, false, List, [], ◌∷◌, ◌++◌, length, get_or, take, sym, ap, ◌∙◌, append_assoc, arith}
use Rattle.std.specs.Fmt.{padded_integral, format_spec, digits}
use Rattle.std.proofs.lemmas.Fmt.{hex_byte as two_digits}
use Rattle.std.proofs.lemmas.Grind.{flat_map-append}
use Rattle.std.proofs.lemmas.List.{flat_map_more, take_more, append-nil}
use Rattle.std.proofs.lemmas.Bool.Decides.{nat_tests}
use Rattle.texts.specs.Hex.{hex_digit, hex_byte, hex}

digit_ascii : (d : ℕ) → d < 16 → hex_digit d < 128
digit_ascii d h = grind (arith, nat_tests)

-- A push of a digit appends its one byte.
pub pushed : (old : List ℕ) {new enc : List ℕ} {ch : ℕ} (d : ℕ) → d < 16 → ch ≡ hex_digit d → (ch < 128 → enc ≡ ch ∷ []) → new ≡ old ++ enc → new ≡ old ++ hex_digit d ∷ []
pushed old d h e ascii p = p ∙ ap (λ x. old ++ x) (ascii (omega (arith, digit_ascii d h)) ∙ ap (λ x. x ∷ []) e)

pub hex_more : (out bytes : List ℕ) (i : ℕ) (a b : List ℕ) {c : List ℕ} → i < length bytes → a ≡ out ++ hex (take i bytes) → b ≡ a ++ hex_digit (get_or bytes i 0 / 16) ∷ [] → c ≡ b ++ hex_digit (get_or bytes i 0 % 16) ∷ [] → c ≡ out ++ hex (take (i + 1) bytes)
hex_more out bytes i a b h e₁ e₂ e₃ =
    let x = get_or bytes i 0 in
    e₃ ∙ ap (λ l. l ++ hex_digit (x % 16) ∷ []) e₂ ∙ append_assoc a (hex_digit (x / 16) ∷ []) (hex_digit (x % 16) ∷ []) ∙ ap (λ l. l ++ hex_byte x) e₁ ∙ flat_map_more hex_byte out (take i bytes) x ∙ ap (λ l. out ++ hex l) (sym (take_more bytes i 0 h))

-- what `{:02x}` writes of a byte
abbrev pub written : ℕ → List ℕ
written b = padded_integral (format_spec 32 0 4 2 (2 ^ 64 - 1)) false [] (digits 16 false b)

pub hex_written_more : (bytes : List ℕ) (i : ℕ) → i < length bytes → get_or bytes i 0 < 256 → hex (take i bytes) ++ written (get_or bytes i 0) ≡ hex (take (i + 1) bytes)
hex_written_more bytes i h small =
    let x = get_or bytes i 0 in
    ap (λ l. hex (take i bytes) ++ l) (two_digits false x small ∙ sym (append-nil (hex_byte x))) ∙ sym (flat_map-append hex_byte (take i bytes) (x ∷ [])) ∙ ap hex (sym (take_more bytes i 0 h))
