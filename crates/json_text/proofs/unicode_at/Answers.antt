-- `json_text::unicode_at` meets its contract: its digits decide.
-- Assumes nothing.
use mathlib.Core.Path.{◌≡◌, sym, ap, ◌∙◌}
use mathlib.Core.Bool.{true, false}
use native.Mathlib.Omega.{arith}
use Rattle.std.specs.Prelude.{option_map}
use Rattle.json_text.specs.Post.{char_of}
use Rattle.json_text.specs.Text.{is_high, is_low}
use Rattle.json_text.proofs.HexDigits.{hex4_inside}
use Rattle.json_text.proofs.Escaping.{within_is, within_below, within_above, unicode_none, unicode_pair, unicode_lone, unicode_single}
use Rattle.json_text.proofs.unicode_at.Goals as goal

pub returns-in_err-v-clause-value : goal.returns-in_err-v-clause-value
returns-in_err-v-clause-value c =
    let a = c.args in
    ap (option_map char_of) c.from_residual.ensures ∙ sym (unicode_none a.s.now a.at (sym c.hex4.ensures.value ∙ c.in_err-v.was))

pub low_half-requires : goal.low_half-requires
low_half-requires c = let a = c.args in hex4_inside a.s.now a.at c.in_ok-v.v (sym c.hex4.ensures.value ∙ c.in_ok-v.was)

pub returns-in_err-low-in-55296-to-56319-clause-value : goal.returns-in_err-low-in-55296-to-56319-clause-value
returns-in_err-low-in-55296-to-56319-clause-value c =
    let a = c.args in
    let v = c.in_ok-v in
    let h : is_high v.v ≡ true = within_is 0xD800 0xDBFF v.v (omega arith) (omega arith) in
    ap (option_map char_of) c.from_residual-in_err-low-in-55296-to-56319.ensures
    ∙ sym (unicode_pair a.s.now a.at v.v (sym c.hex4.ensures.value ∙ v.was) h (sym c.low_half.ensures.value ∙ c.in_err-low-in-55296-to-56319.was))

pub returns-in_ok-low-in-55296-to-56319-clause-value : goal.returns-in_ok-low-in-55296-to-56319-clause-value
returns-in_ok-low-in-55296-to-56319-clause-value c =
    let a = c.args in
    let v = c.in_ok-v in
    let h : is_high v.v ≡ true = within_is 0xD800 0xDBFF v.v (omega arith) (omega arith) in
    sym (unicode_pair a.s.now a.at v.v (sym c.hex4.ensures.value ∙ v.was) h (sym c.low_half.ensures.value ∙ c.in_ok-low-in-55296-to-56319.was))

pub returns-in-56320-to-57343-clause-value : goal.returns-in-56320-to-57343-clause-value
returns-in-56320-to-57343-clause-value c =
    let a = c.args in
    let v = c.in_ok-v in
    let h : is_high v.v ≡ false = within_above 0xD800 0xDBFF v.v (omega arith) in
    let l : is_low v.v ≡ true = within_is 0xDC00 0xDFFF v.v (omega arith) (omega arith) in
    sym (unicode_lone a.s.now a.at v.v (sym c.hex4.ensures.value ∙ v.was) h l)

pub returns-in_default-clause-value : goal.returns-in_default-clause-value
returns-in_default-clause-value c =
    let a = c.args in
    let v = c.in_ok-v in
    let h : is_high v.v ≡ false = within_below 0xD800 0xDBFF v.v (omega arith) in
    let l : is_low v.v ≡ false = within_below 0xDC00 0xDFFF v.v (omega arith) in
    sym (unicode_single a.s.now a.at v.v (sym c.hex4.ensures.value ∙ v.was) h l)

pub returns-in_default-2-clause-value : goal.returns-in_default-2-clause-value
returns-in_default-2-clause-value c =
    let a = c.args in
    let v = c.in_ok-v in
    let h : is_high v.v ≡ false = within_above 0xD800 0xDBFF v.v (omega arith) in
    let l : is_low v.v ≡ false = within_above 0xDC00 0xDFFF v.v (omega arith) in
    sym (unicode_single a.s.now a.at v.v (sym c.hex4.ensures.value ∙ v.was) h l)
