-- `statement_limits::entries::is_constraint_within` meets its contract.
use Rattle.bytes_bundle.specs.Decides.{failed, passed}
use Rattle.bytes_bundle.specs.Looks.{Inside, inside_is, inside_says}
use Rattle.bytes_format.proofs.Formats.{list_of}
use Rattle.image_expression.specs.Names.{Within}
use Rattle.bytes_bundle.specs.Held.{list_bundle}
use Rattle.statement_limits.specs.Lists.{list_takes, list_told}
use Rattle.statement_limits.specs.Cases.{no_key, key_inside}
use Rattle.statement_limits.specs.Within.{list_within, constraint_within}
use Rattle.image_parts.specs.Layout.{name, constraint}
use borrow.Author.Rules.{rules}
use mathlib.Core.Bool.{Bool}
use mathlib.Core.Path.{refl, sym, ap}
use Rattle.statement_limits.proofs.entries.is_constraint_within.Goals.{After-key_names}
use Rattle.std.proofs.Common.{not}
use Rattle.statement_limits.proofs.entries.is_constraint_within.Goals as goal

inner : (c : After-key_names) → Inside constraint (list_of 2 name) constraint_within (list_within 64 Within) c.args.c.now c.key_names.result.now
unfolding constraint_within
inner c = key_inside constraint_within (list_within 64 Within) (λ m l. refl) (λ v h. passed (c.is_primary_key.ensures v h) (ap not c.if-not-is_primary_key.false)) c.key_names.ensures

pub returns-then-not-is_primary_key : goal.returns-then-not-is_primary_key
unfolding constraint_within
returns-then-not-is_primary_key c = λ v h. sym (ap constraint_within (no_key v (failed (c.is_primary_key.ensures v h) (ap not c.if-not-is_primary_key.true))))

pub key_names-requires : goal.key_names-requires
key_names-requires c = record { there = c.requires.there; case = λ v h. passed (c.is_primary_key.ensures v h) (ap not c.if-not-is_primary_key.false) }

pub is_list_within-requires-clause-bundle : goal.is_list_within-requires-clause-bundle
is_list_within-requires-clause-bundle c = list_bundle name (inside_is (inner (goal.at.is_list_within-requires-clause-bundle c).After-key_names) c.requires)

pub is_list_within-requires-clause-takes : goal.is_list_within-requires-clause-takes
is_list_within-requires-clause-takes c = list_takes name _ (inside_is (inner (goal.at.is_list_within-requires-clause-takes c).After-key_names) c.requires) (λ x i. search rules)

pub returns : goal.returns
returns c = inside_says (inner (goal.at.returns c).After-key_names) (λ (b : Bool). b) (list_told name Within 64 _ c.is_list_within.ensures (λ x b k v h. search rules))
