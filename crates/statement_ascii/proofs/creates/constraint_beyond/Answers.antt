-- `statement_ascii::creates::constraint_beyond` meets its contract.
use Rattle.statement_ascii.specs.Beyond.{Beyond, names_look}
use Rattle.bytes_bundle.specs.Chains.{list_callable, list_looked}
use Rattle.bytes_bundle.specs.Held.{list_bundle}
use Rattle.bytes_bundle.specs.Decides.{failed, passed}
use Rattle.bytes_bundle.specs.Looks.{Inside, inside_is, inside_says}
use Rattle.bytes_format.proofs.Formats.{list_of}
use Rattle.statement_limits.specs.Cases.{no_key, key_inside}
use Rattle.rules.specs.Limits.{constraint_names}
use Rattle.rules.specs.Statements.{Constraint}
use Rattle.image_parts.specs.Layout.{name, constraint}
use borrow.Author.Rules.{rules}
use mathlib.Core.Path.{refl, sym, ap}
use Rattle.statement_ascii.proofs.creates.constraint_beyond.Goals.{After-key_names}
use Rattle.std.proofs.Common.{not}
use Rattle.statement_ascii.proofs.creates.constraint_beyond.Goals as goal

inner : (c : After-key_names) → Inside constraint (list_of 2 name) constraint_names (λ l. l) c.args.c.now c.key_names.result.now
inner c = key_inside constraint_names (λ l. l) (λ m l. refl) (λ v h. passed (c.is_primary_key.ensures v h) (ap not c.if-not-is_primary_key.false)) c.key_names.ensures

pub returns-then-not-is_primary_key : goal.returns-then-not-is_primary_key
returns-then-not-is_primary_key c = λ v h. sym (ap (λ (k : Constraint). Beyond (constraint_names k)) (no_key v (failed (c.is_primary_key.ensures v h) (ap not c.if-not-is_primary_key.true))))

pub key_names-requires : goal.key_names-requires
key_names-requires c = record { there = c.requires.there; case = λ v h. passed (c.is_primary_key.ensures v h) (ap not c.if-not-is_primary_key.false) }

pub iter-requires : goal.iter-requires
iter-requires c = (search rules, list_bundle name (inside_is (inner (goal.at.iter-requires c).After-key_names) c.requires))

pub any-requires-clause-callable : goal.any-requires-clause-callable
any-requires-clause-callable c =
    list_callable name 2 _ _ c.iter.ensures (inside_is (inner (goal.at.any-requires-clause-callable c).After-key_names) c.requires) (λ x b q k. search rules) (λ x i. search rules)

pub returns : goal.returns
returns c = inside_says (inner (goal.at.returns c).After-key_names) Beyond (list_looked name names_look 2 _ _ c.iter.ensures _ _ c.any.ensures.ran (λ x b q k. search rules))
