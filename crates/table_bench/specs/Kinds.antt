-- The numbers of the kinds of tables.
use Rattle.std.specs.Prelude.{◌≡◌, ℕ, ◌<◌, MatchResult, Result}
use Rattle.table_bench.specs.declared.kind.Kind.{Kind}
use Rattle.table_bench.specs.declared.kind.Kind.TheVariants.{Searched, Hashed, RecentOverSearched, RecentOverHashed}
use Rattle.table_bench.specs.declared.kind.UnknownKind.{UnknownKind}

abbrev pub kind_number : Kind → ℕ
kind_number Searched = 0
kind_number Hashed = 1
kind_number RecentOverSearched = 2
kind_number RecentOverHashed = 3

-- The kind with this number, or an error with a number that no kind has.
abbrev pub Decodes : ℕ → Result Kind UnknownKind → Type 0
Decodes n r = MatchResult r (λ kind. kind_number kind ≡ n) (λ e. (e.0 ≡ n) × (3 < n))
