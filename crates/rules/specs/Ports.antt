-- Sets of ports: sixteen flags, that of port 0 first. A bridge has at most sixteen ports, numbered from 0, and eight
-- traffic classes, numbered from 0 too. What src/ calls a `PortSet` is here `Ports`: antt has no name for an alias.
use Rattle.std.specs.Prelude.{ℕ, Bool, false, List, [], ◌∷◌, map}
use Rattle.sets.specs.Sets.{any_in, holds}
use Rattle.sets.specs.declared.number_set.NumberSet.{NumberSet}

abbrev pub Ports : Type 0
Ports = NumberSet 16

abbrev pub sixteen : List ℕ
sixteen = 0 ∷ 1 ∷ 2 ∷ 3 ∷ 4 ∷ 5 ∷ 6 ∷ 7 ∷ 8 ∷ 9 ∷ 10 ∷ 11 ∷ 12 ∷ 13 ∷ 14 ∷ 15 ∷ []

abbrev pub eight : List ℕ
eight = 0 ∷ 1 ∷ 2 ∷ 3 ∷ 4 ∷ 5 ∷ 6 ∷ 7 ∷ []

-- whether a port is in a set
abbrev pub has : Ports → ℕ → Bool
has set p = holds set p

-- the ports of which a test holds
abbrev pub ports_where : (ℕ → Bool) → Ports
ports_where test = map test sixteen

abbrev pub no_ports : Ports
no_ports = ports_where (λ p. false)

-- whether a set has any port
abbrev pub has_any : Ports → Bool
has_any set = any_in set
