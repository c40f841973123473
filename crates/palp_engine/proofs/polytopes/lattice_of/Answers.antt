use Rattle.std.specs.Prelude.{◌≡◌, length, IsTrue}
use Rattle.std.proofs.Common.{rules, refl}
use Rattle.palp_engine.proofs.polytopes.lattice_of.Goals as goal

pub returns-then-complete : goal.returns-then-complete
returns-then-complete c =
    let t : IsTrue c.args.complete = search rules in
    let count : c.len.result ≡ length c.args.points.items = search rules in
    record {
      list = c.args.points.items;
      are_lattice_points = (c.requires.complete t).all;
      few = (c.requires.complete t).few;
      count_is = count;
      listed_is = λ u. refl;
    }

pub scanned-requires : goal.scanned-requires
scanned-requires c = rw c.deref.ensures.value c.requires.passed

pub returns-then-listed : goal.returns-then-listed
returns-then-listed c = rw c.if-listed.true (rw c.deref.ensures.value at c.scanned.ensures)

pub counted-requires : goal.counted-requires
counted-requires c = rw c.deref-2.ensures.value c.requires.passed

pub returns : goal.returns
returns c = rw c.if-listed.false (rw c.deref-2.ensures.value at c.counted.ensures)
