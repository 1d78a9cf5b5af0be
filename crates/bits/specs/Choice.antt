-- A choice by a test. Definitions of every layer use it, and not `cond`: where the test is known, only the case that it picks is computed.
use Rattle.std.specs.Prelude.{Bool, true, false}

abbrev pub pick : {A : Type 0} → Bool → A → A → A
pick true a b = a
pick false a b = b
