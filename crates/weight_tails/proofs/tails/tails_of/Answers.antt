use Rattle.std.proofs.lemmas.Result.{on_ok_weaker}
use Rattle.weight_tails.proofs.Monomials.{tails_are, sum_taken}
use Rattle.weight_tails.proofs.Listing.{once_from_none}
use Rattle.weight_tails.proofs.tails.tails_of.Goals as goal
use Rattle.std.proofs.Common.{rules}

pub add_tails-requires-clause-taken : goal.add_tails-requires-clause-taken
add_tails-requires-clause-taken c = sum_taken c.args.weights.now c.args.degree c.requires.sum

pub returns-clause-tails : goal.returns-clause-tails
returns-clause-tails c =
    on_ok_weaker c.add_tails.result
    (λ added. tails_are c.args.weights.now _ c.args.degree c.clear.new.self.items _ c.requires.some c.requires.positive
    c.requires.sum (search rules) c.clear.ensures.items added)
    c.add_tails.ensures.tails

pub returns-clause-once : goal.returns-clause-once
returns-clause-once c = on_ok_weaker c.add_tails.result (λ stay. once_from_none _ c.clear.new.self.items _ c.clear.ensures.items stay) c.add_tails.ensures.once
