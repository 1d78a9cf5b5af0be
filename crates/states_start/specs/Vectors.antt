-- Vectors, component by component. Each sum, product and quotient is rounded.
use Rattle.std.specs.Prelude.{Float}
use Rattle.bits.specs.Arithmetic.{◌⊕◌, ◌⊗◌, ◌⊘◌}
use Rattle.states_start.specs.declared.figures.Vector.{Vector}

abbrev pub times : Float → Vector → Vector
times k v = record { x = k ⊗ v.x; y = k ⊗ v.y; z = k ⊗ v.z }

abbrev pub plus : Vector → Vector → Vector
plus v w = record { x = v.x ⊕ w.x; y = v.y ⊕ w.y; z = v.z ⊕ w.z }

abbrev pub over : Vector → Float → Vector
over v k = record { x = v.x ⊘ k; y = v.y ⊘ k; z = v.z ⊘ k }

-- "(x·x+y·y)+z·z", "σ0 = x·vx+y·vy+z·vz" and "v² = vx·vx+vy·vy+vz·vz" are the same formula: sums "group from the left".
unfoldable pub dot : Vector → Vector → Float
dot a b = (a.x ⊗ b.x ⊕ a.y ⊗ b.y) ⊕ a.z ⊗ b.z
