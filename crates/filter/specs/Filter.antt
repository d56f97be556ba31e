-- The filter registers, and changes of one of them. Assumes nothing.
use Rattle.std.specs.Prelude.{ℕ}
use Rattle.filter.specs.declared.Filter.{Filter}

-- the filter registers, one by one: MAC control, MAC address high and low, multicast hash high and low. Every change below is made by it
abbrev pub filter_of : ℕ → ℕ → ℕ → ℕ → ℕ → Filter
filter_of mcr mah mal mcha mcla = record { mcr = mcr; mah = mah; mal = mal; mcha = mcha; mcla = mcla }

abbrev pub with_mcr : Filter → ℕ → Filter
with_mcr f v = filter_of v f.mah f.mal f.mcha f.mcla

abbrev pub with_mah : Filter → ℕ → Filter
with_mah f v = filter_of f.mcr v f.mal f.mcha f.mcla

abbrev pub with_mal : Filter → ℕ → Filter
with_mal f v = filter_of f.mcr f.mah v f.mcha f.mcla

abbrev pub with_mcha : Filter → ℕ → Filter
with_mcha f v = filter_of f.mcr f.mah f.mal v f.mcla

abbrev pub with_mcla : Filter → ℕ → Filter
with_mcla f v = filter_of f.mcr f.mah f.mal f.mcha v
