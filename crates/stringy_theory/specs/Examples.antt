-- Worked examples: simplices with edges of length n + 1 in dimension n, whose hypersurfaces are two points, a curve, a surface and the quintic.
-- This project's own.
use Rattle.std.specs.Prelude.{ℕ, zero, suc, cond, ◌+◌, ◌-◌, ◌*◌, ◌/◌, ◌%◌, nat_eq, [], ◌∷◌, pos}
use Rattle.std.specs.Int.Bits.{bit_and}
use Rattle.polynomial_theory.specs.Series.{Series, one}
use Rattle.stringy_theory.specs.Eulerian.{Order}
use Rattle.stringy_theory.specs.CountedFaces.{CountedFaces}

-- the segment from -1 to 1: two ends, whose hypersurface is two points
abbrev pub segment : CountedFaces ℕ
segment = record {
  faces = 0 ∷ 1 ∷ 2 ∷ 3 ∷ [];
  below = λ x y. nat_eq (bit_and x y) x;
  rank = λ x. cond (nat_eq x 0) 0 (cond (nat_eq x 3) 2 1);
  top = 2;
  l = λ x s. cond (nat_eq x 0) (one s) (cond (nat_eq x 3) (pos (s + s + 1)) (pos 1));
  l_dual = λ x s. cond (nat_eq x 3) (one s) (cond (nat_eq x 0) (pos (s + s + 1)) (pos 1));
}

-- the triangle with edges of length 3, whose hypersurface is a curve of genus 1
abbrev pub bits : ℕ → ℕ
bits x = x % 2 + x / 2 % 2 + x / 4 % 2

abbrev pub points_of : ℕ → ℕ → Series
points_of m zero s = one s
points_of m (suc zero) s = pos 1
points_of m (suc (suc zero)) s = pos (m * s + 1)
points_of m (suc (suc (suc k))) s = pos ((m * s + 2) * (m * s + 1) / 2)

abbrev pub triangle : CountedFaces ℕ
triangle = record {
  faces = 0 ∷ 1 ∷ 2 ∷ 3 ∷ 4 ∷ 5 ∷ 6 ∷ 7 ∷ [];
  below = λ x y. nat_eq (bit_and x y) x;
  rank = bits;
  top = 3;
  l = λ x. points_of 3 (bits x);
  l_dual = λ x s. cond (nat_eq x 0) (pos ((3 * s * s + 3 * s + 2) / 2)) (points_of 1 (3 - bits x) s);
}

-- the tetrahedron with edges of length 4, whose hypersurface is a surface
abbrev pub bits4 : ℕ → ℕ
bits4 x = bits x + x / 8 % 2

abbrev pub points4 : ℕ → ℕ → Series
points4 m k s = cond (nat_eq k 4) (pos ((m * s + 3) * (m * s + 2) * (m * s + 1) / 6)) (points_of m k s)

abbrev pub tetrahedron : CountedFaces ℕ
tetrahedron = record {
  faces = 0 ∷ 1 ∷ 2 ∷ 3 ∷ 4 ∷ 5 ∷ 6 ∷ 7 ∷ 8 ∷ 9 ∷ 10 ∷ 11 ∷ 12 ∷ 13 ∷ 14 ∷ 15 ∷ [];
  below = λ x y. nat_eq (bit_and x y) x;
  rank = bits4;
  top = 4;
  l = λ x. points4 4 (bits4 x);
  l_dual = λ x s. cond (nat_eq x 0) (pos (((s + 3) * (s + 2) * (s + 1) + (s + 2) * (s + 1) * s + (s + 1) * s * (s - 1) + s * (s - 1) * (s - 2)) / 6)) (points4 1 (4 - bits4 x) s);
}

-- the simplex of dimension 4 with edges of length 5, whose hypersurface is the quintic
abbrev pub bits5 : ℕ → ℕ
bits5 x = bits4 x + x / 16 % 2

abbrev pub points5 : ℕ → ℕ → Series
points5 m k s = cond (nat_eq k 5) (pos ((m * s + 4) * (m * s + 3) * (m * s + 2) * (m * s + 1) / 24)) (points4 m k s)

abbrev pub choose4 : ℕ → ℕ
choose4 n = n * (n - 1) * (n - 2) * (n - 3) / 24

abbrev pub simplex : CountedFaces ℕ
simplex = record {
  faces = 0 ∷ 1 ∷ 2 ∷ 3 ∷ 4 ∷ 5 ∷ 6 ∷ 7 ∷ 8 ∷ 9 ∷ 10 ∷ 11 ∷ 12 ∷ 13 ∷ 14 ∷ 15 ∷ 16 ∷ 17 ∷ 18 ∷ 19 ∷ 20 ∷ 21 ∷ 22 ∷ 23 ∷ 24 ∷ 25 ∷ 26 ∷ 27 ∷ 28 ∷ 29 ∷ 30 ∷ 31 ∷ [];
  below = λ x y. nat_eq (bit_and x y) x;
  rank = bits5;
  top = 5;
  l = λ x. points5 5 (bits5 x);
  l_dual = λ x s. cond (nat_eq x 0) (pos (choose4 (s + 4) + choose4 (s + 3) + choose4 (s + 2) + choose4 (s + 1) + choose4 s)) (points5 1 (5 - bits5 x) s);
}

-- the octahedron's faces: the empty one, six corners, twelve edges, eight triangles and the whole; a set of corners is the sum of their
-- numbers 1, 2, 4, 8, 16 and 32, of which 1 and 8, 2 and 16, and 4 and 32 are opposite
abbrev pub octahedron_rank : ℕ → ℕ
octahedron_rank x = cond (nat_eq x 63) 4 (bits5 x + x / 32 % 2)

abbrev pub octahedron_order : Order ℕ
octahedron_order = record {
  members = 0 ∷ 1 ∷ 2 ∷ 4 ∷ 8 ∷ 16 ∷ 32 ∷ 3 ∷ 5 ∷ 17 ∷ 33 ∷ 6 ∷ 10 ∷ 34 ∷ 12 ∷ 20 ∷ 24 ∷ 40 ∷ 48 ∷ 7 ∷ 35 ∷ 21 ∷ 49 ∷ 14 ∷ 42 ∷ 28 ∷ 56 ∷ 63 ∷ [];
  below = λ x y. nat_eq (bit_and x y) x;
  gap = λ x y. octahedron_rank y - octahedron_rank x;
}
