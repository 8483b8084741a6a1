-- What the bytes of a sheet say of its parts.
use Rattle.std.proofs.Common.{◌≡◌, ℕ, ◌-◌, ◌*◌, ◌<◌, List, pos, sym, ap, ◌∙◌, arith}
use Rattle.format.specs.Numbers.{number}
use Rattle.format.specs.Parts.{SheetBytes, MultipliersOf}
use Rattle.format.specs.Sizes.{w_at, v_at, sheet_count}
use Rattle.format.specs.Spelling.{Spells}
use Rattle.format.specs.Values.{sheet_number}
use Rattle.format.specs.declared.certificate.Certificate.{Certificate}
use Rattle.format.proofs.Chains.{part, from_base}

-- a sheet whose parts have the numbers of the bytes has all of them
pub sheet_spells : (bytes : List ℕ) (t : Certificate) → SheetBytes t.n t.count bytes → number bytes 0 ≡ pos t.scale → MultipliersOf 1 t.count t.count bytes t.m.cells →
    MultipliersOf (w_at t.count) 2 t.count bytes t.w.cells → MultipliersOf (v_at t.count) (2 * t.n) t.count bytes t.v.cells →
    Spells bytes (sheet_count t.n t.count) (sheet_number t)
sheet_spells bytes t known scale m w v = record { whole = known.whole; each = each }
  where
    each : (i : ℕ) → i < sheet_count t.n t.count → number bytes i ≡ sheet_number t i
    each i l =
        part i 1 _ _ (number bytes i) (λ q. let e : i ≡ 0 = omega arith in ap (number bytes) e ∙ scale) (λ p.
        part i (w_at t.count) _ _ (number bytes i) (λ q. from_base (number bytes) i 1 p ∙ sym (m.each (i - 1) (omega arith))) (λ p.
        part i (v_at t.count) _ _ (number bytes i) (λ q. from_base (number bytes) i (w_at t.count) p ∙ sym (w.each (i - w_at t.count) (omega arith))) (λ p.
        from_base (number bytes) i (v_at t.count) p ∙ sym (v.each (i - v_at t.count) (omega arith)))))
