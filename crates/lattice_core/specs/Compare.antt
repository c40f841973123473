-- What a comparison answers. This project's own.
use Rattle.std.specs.Prelude.{◌≡◌}
use Rattle.std.specs.declared.cmp.Ordering.{Ordering}
use Rattle.std.specs.declared.cmp.Ordering.TheVariants.{Less, Equal, Greater}

-- `Less` where x comes before y, `Equal` where they are the same, `Greater` where y comes before x
abbrev pub Compares : {X : Type 0} → (X → X → Type 0) → X → X → Ordering → Type 0
Compares less x y Less = less x y
Compares less x y Equal = x ≡ y
Compares less x y Greater = less y x
