use Rattle.std.proofs.Common.{pos, refl, rules}
use Rattle.linear.specs.Rows.{most_numbers}
use Rattle.linear.specs.Tables.{at}
use Rattle.linear.proofs.Made.{filled_made}
use Rattle.voter.specs.Sent.{sent}
use Rattle.voter.specs.Votes.{mids, noise_of}
use Rattle.voter.proofs.Faulty.{close, two_true}
use Rattle.voter.proofs.Outsides.{middle_inside, middle_taken}
use Rattle.voter.proofs.Voting.{filled_middle}
use Rattle.voter.proofs.sensors.Sensors.middle_row.Goals as goal

pub invariant_of-result : goal.invariant_of-result
invariant_of-result c =
    let s = c.args.self.now in
    let ys = sent c.args.readings.now in
    let made = c.from_fn.ensures.items in
    let value = filled_made (λ x. x) (pos 0) s.n most_numbers (mids ys) refl s.sized made (λ i y q l k. search rules) in
    record { sized = made.long; within = middle_inside s.n ys c.requires (at c.from_fn.result) value }

pub returns : goal.returns
returns c =
    let s = c.args.self.now in
    let ys = sent c.args.readings.now in
    let y = at c.from_fn.result in
    let value = filled_made (λ x. x) (pos 0) s.n most_numbers (mids ys) refl s.sized c.from_fn.ensures.items (λ i y q l k. search rules) in
    let mid = filled_middle s.n ys y value in
    record {
      inside = c.requires;
      value = value;
      of_sent = mid;
      of_taken = middle_taken s.n ys y c.requires mid;
      close = λ x faulty r. close s.n (noise_of s) x y ys (two_true s.n (noise_of s) (λ _. x) faulty ys r) mid;
    }
