-- Writing and reading undo each other.
use Rattle.std.specs.Prelude.{◌≡◌, ℕ, List}
use Rattle.format.specs.Reading.{Holds, claim_given}
use Rattle.format.specs.Refusals.{Sound}
use Rattle.format.specs.Spelling.{Bytes}
use Rattle.format.specs.declared.claim.Claim.{Claim}

-- the bytes of a claim are sound, and those of no other claim
abbrev pub ReadsBack : Type 0
ReadsBack =
    (design set sheet : List ℕ) (c : Claim) → Holds design set sheet c → Sound (claim_given design set sheet) × ((d : Claim) → Holds design set sheet d → d ≡ c)

-- a claim has no other bytes
abbrev pub WritesBack : Type 0
WritesBack =
    (design set sheet design' set' sheet' : List ℕ) (c : Claim) → Bytes design × Bytes set × Bytes sheet → Bytes design' × Bytes set' × Bytes sheet' →
    Holds design set sheet c → Holds design' set' sheet' c → (design ≡ design') × (set ≡ set') × (sheet ≡ sheet')
