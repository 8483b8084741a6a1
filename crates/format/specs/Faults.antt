-- What a recording is refused for, by its number and place.
use Rattle.std.specs.Prelude.{ℕ}
use Rattle.format.specs.Refusals.{report}
use Rattle.format.specs.declared.fault.Fault.{Fault}
use Rattle.format.specs.declared.fault.Fault.TheVariants.{Documents, Beats, Padding}

-- a fault's number and its place
abbrev pub fault_report : Fault → ℕ × ℕ
fault_report (Documents refusal) = report refusal
fault_report (Beats place) = (1, place)
fault_report (Padding place) = (1, place)
