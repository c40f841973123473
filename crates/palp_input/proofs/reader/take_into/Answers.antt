use Rattle.std.proofs.Common.{◌≡◌, ℕ, ◌+◌, ◌-◌, ◌≤◌, List, [], ◌++◌, length, take, drop, replicate, rules, refl, ap, ◌∙◌, arith, length-append, length-drop}
use Rattle.std.proofs.lemmas.List.{length-take-le, length-take, length-replicate}
use Rattle.palp_input.proofs.Takes.{front_kept, none_kept, none_left}
use Rattle.palp_input.proofs.reader.take_into.Goals as goal

room_behind : (bytes now : List ℕ) (held room size count : ℕ) → now ≡ bytes ++ replicate room 0 → held ≡ length bytes → size ≡ length now → count ≤ room
    → held + count ≤ size
room_behind bytes now held room size count e h s le = omega (arith, h, s, le, ap length e, length-append bytes (replicate room 0), length-replicate {A = ℕ} room 0)

within_room : (bytes now buffer : List ℕ) (held room : ℕ) → now ≡ bytes ++ replicate room 0 → held ≡ length bytes
    → length buffer ≡ length (take (length now - held) (drop held now)) → length buffer ≤ room
within_room bytes now buffer held room e h l =
    omega (arith, h, l, ap length e, length-append bytes (replicate room 0), length-replicate {A = ℕ} room 0, length-take (length now - held) (drop held now), length-drop held now)

no_more : (held size : ℕ) → held + 0 ≤ size → held ≤ size
no_more held size h = omega arith

pub returns-in-Bytes : goal.returns-in-Bytes
returns-in-Bytes g c =
    let given = c.in-Bytes.ensures.means in
    let old = c.args.bytes.now.items in
    let held : c.len-held.result ≡ length old = search rules in
    let size : c.clear_behind.new.bytes.len ≡ length c.clear_behind.new.bytes.items = search rules in
    let lent = c.deref_mut.ensures.value ∙ c.in_ok-clear_behind.ensures in
    let fits = within_room old c.deref_mut.result.now c.take.new.buf c.len-held.result c.args.room lent held c.take.auto.buf in
    let count = length-take-le c.in-Bytes.count c.take.new.buf given.fits in
    record {
      bytes = take c.in-Bytes.count c.take.new.buf;
      passes = c.in-Bytes.ensures.passes;
      most = omega (arith, count, given.fits, fits);
      later = c.take.ensures.later;
      appended = front_kept old _ c.deref_mut.result.now c.take.new.buf _ _ c.truncate.new.self.items c.len-held.result _
          c.in-Bytes.count lent held given.fits
          (room_behind old _ c.len-held.result c.args.room _ c.in-Bytes.count c.in_ok-clear_behind.ensures held size (omega (arith, given.fits, fits)))
          c.truncate.ensures.items;
      append = (count, λ none. absurd (omega (arith, none, given.some)));
    }

pub returns-in-End : goal.returns-in-End
returns-in-End g c =
    let at_end = c.in-End.ensures.means in
    let old = c.args.bytes.now.items in
    let held : c.len-held.result ≡ length old = search rules in
    let size : c.clear_behind.new.bytes.len ≡ length c.clear_behind.new.bytes.items = search rules in
    let lent = c.deref_mut.ensures.value ∙ c.in_ok-clear_behind.ensures in
    record {
      bytes = [];
      passes = c.in-End.ensures.passes;
      most = omega arith;
      later = c.take.ensures.later;
      appended = none_kept old _ c.deref_mut.result.now c.take.new.buf _ _ c.truncate-in-End.new.self.items c.len-held.result _
          lent held (no_more _ _ (room_behind old _ c.len-held.result c.args.room _ 0 c.in_ok-clear_behind.ensures held size (omega arith)))
          c.truncate-in-End.ensures.items;
      append = (refl, λ none. record { nothing_left = none_left _ _ c.in-End.ensures.passes.front at_end.nothing_left; told = at_end.ended });
    }

pub returns-in-Failed : goal.returns-in-Failed
returns-in-Failed g c =
    let old = c.args.bytes.now.items in
    let held : c.len-held.result ≡ length old = search rules in
    let size : c.clear_behind.new.bytes.len ≡ length c.clear_behind.new.bytes.items = search rules in
    let lent = c.deref_mut.ensures.value ∙ c.in_ok-clear_behind.ensures in
    record {
      bytes = [];
      passes = c.in-Failed.ensures.passes;
      most = omega arith;
      later = c.take.ensures.later;
      appended = none_kept old _ c.deref_mut.result.now c.take.new.buf _ _ c.truncate-in-Failed.new.self.items c.len-held.result _
          lent held (no_more _ _ (room_behind old _ c.len-held.result c.args.room _ 0 c.in_ok-clear_behind.ensures held size (omega arith)))
          c.truncate-in-Failed.ensures.items;
      append = (refl, c.in-Failed.ensures.means.rose);
    }
