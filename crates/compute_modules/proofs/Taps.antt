-- The taps of a staged tensor, by the parts that say them.
use Rattle.std.proofs.Common.{◌≡◌, ℕ, ◌+◌, ◌<◌, ◌++◌, ◌∷◌, [], length, map, take, get_or, ◌&&◌, Bool, true, false, List, Some, None, Option, ◌∙◌, ap, sym, ℤ, pos, if◌then◌else◌}
use Rattle.std.proofs.lemmas.List.{map-append, take_more}
use Rattle.delay_net.specs.declared.net.Read.{Read}
use Rattle.soda_words.specs.IntType.{IntType}
use Rattle.soda_ir.specs.declared.program.Parts.{Parts}
use Rattle.soda_ir.specs.Counts.{is_output, output_number}
use Rattle.soda_ir.specs.Program.{plain, preserves}
use Rattle.time_stages.specs.declared.staging.StagedTensor.{StagedTensor}
use Rattle.time_stages.specs.Staged.{number_read, staged_reads, staged_tensors, type_of}
use Rattle.staged_cells.specs.Cells.{port_of}
use Rattle.compute_modules.specs.declared.tap.Tap.{Tap}
use Rattle.compute_modules.specs.pieces.Taps.{tap_at}

pub tap_is : (q r : Parts) (ts : List StagedTensor) (rs : List Read) (v turn y n port : ℕ) (d : ℤ) (t : IntType) → r ≡ q → ts ≡ staged_tensors (plain q)
    → rs ≡ staged_reads (plain q) → n ≡ number_read (plain r) ts turn y → port ≡ port_of rs v n d → t ≡ type_of (plain r) y
    → ◌≡◌ {A = Tap} (record { port = port; ty = t }) (tap_at (plain q) v turn y d)
tap_is q r ts rs v turn y n port d t parts tensors reads number at type =
    let of : n ≡ number_read (plain q) (staged_tensors (plain q)) turn y = number ∙ ap (λ (z : Parts). number_read (plain z) ts turn y) parts
    ∙ ap (λ (z : List StagedTensor). number_read (plain q) z turn y) tensors in
    let there : port ≡ port_of (staged_reads (plain q)) v (number_read (plain q) (staged_tensors (plain q)) turn y) d = at
    ∙ ap (λ (z : List Read). port_of z v n d) reads ∙ ap (λ m. port_of (staged_reads (plain q)) v m d) of in
    ap (λ m. let x : Tap = record { port = m; ty = t } in x) there
    ∙ ap (λ (u : IntType). let x : Tap = record { port = port_of (staged_reads (plain q)) v (number_read (plain q) (staged_tensors (plain q)) turn y) d; ty = u } in x)
    (type ∙ ap (λ (z : Parts). type_of (plain z) y) parts)

has_border : (q r : Parts) (x : ℕ) (kept output : Bool) → r ≡ q → kept ≡ preserves (plain r) → output ≡ is_output (plain r) x
    → (kept && output) ≡ (preserves (plain q) && is_output (plain q) x)
has_border q r x kept output parts keeps out =
    ap (λ b. b && output) (keeps ∙ ap (λ (z : Parts). preserves (plain z)) parts)
    ∙ ap (λ b. preserves (plain q) && b) (out ∙ ap (λ (z : Parts). is_output (plain z) x) parts)

-- the tap of a border, where an output has one
pub border_is : (q r : Parts) (v turn x j : ℕ) (kept output : Bool) (t : Tap) → r ≡ q → kept ≡ preserves (plain r) → output ≡ is_output (plain r) x
    → j ≡ output_number (plain r) x → t ≡ tap_at (plain q) v turn j (pos 0) → (kept && output) ≡ true
    → ◌≡◌ {A = Option Tap} (Some t)
    (if preserves (plain q) && is_output (plain q) x then Some (tap_at (plain q) v turn (output_number (plain q) x) (pos 0)) else None)
border_is q r v turn x j kept output t parts keeps out number is both =
    let border : (preserves (plain q) && is_output (plain q) x) ≡ true = sym (has_border q r x kept output parts keeps out) ∙ both in
    ap Some (is ∙ ap (λ k. tap_at (plain q) v turn k (pos 0)) (number ∙ ap (λ (z : Parts). output_number (plain z) x) parts))
    ∙ sym (ap (λ b. let o : Option Tap = if b then Some (tap_at (plain q) v turn (output_number (plain q) x) (pos 0)) else None in o) border)

pub no_border : (q r : Parts) (v turn x : ℕ) (kept output : Bool) → r ≡ q → kept ≡ preserves (plain r) → output ≡ is_output (plain r) x
    → (kept && output) ≡ false
    → ◌≡◌ {A = Option Tap} None
    (if preserves (plain q) && is_output (plain q) x then Some (tap_at (plain q) v turn (output_number (plain q) x) (pos 0)) else None)
no_border q r v turn x kept output parts keeps out none =
    let border : (preserves (plain q) && is_output (plain q) x) ≡ false = sym (has_border q r x kept output parts keeps out) ∙ none in
    sym (ap (λ b. let o : Option Tap = if b then Some (tap_at (plain q) v turn (output_number (plain q) x) (pos 0)) else None in o) border)

-- one tap more
pub taps_more : {A : Type 0} (f : A → Tap) (xs : List A) (i : ℕ) (x : A) (t : Tap) (ts more : List Tap) → i < length xs → x ≡ get_or xs i x → t ≡ f x
    → ts ≡ map f (take i xs) → more ≡ ts ++ t ∷ [] → more ≡ map f (take (i + 1) xs)
taps_more f xs i x t ts more lt at is was now =
    now ∙ ap (λ (us : List Tap). us ++ t ∷ []) was
    ∙ ap (λ (u : Tap). map f (take i xs) ++ u ∷ []) (is ∙ ap f at)
    ∙ sym (map-append f (take i xs) (get_or xs i x ∷ []))
    ∙ sym (ap (map f) (take_more xs i x lt))
