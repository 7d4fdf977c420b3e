use Rattle.kc_expr.proofs.Common.{rules, ◌≡◌, ℕ, ap, sym, ◌∙◌, refl, Some, map, List, subst, length, ◌≤◌, ◌^◌, arith, common_steps, string_bytes, bytes_eq, take-length, list_any, AreDistinct, with_name, Extends}
use Rattle.std.specs.Prelude.{String}
use Rattle.std.specs.declared.alloc.Global.{Global}
use Rattle.kc_expr.specs.Lookup.{index_of_name}
use Rattle.kc_expr.proofs.Places.{place_pushed, distinct_pushed, names_pushed, place_there}
use Rattle.kc_expr.proofs.StoreLemmas.{extends_self, sound_on, pushed_prefix, pushed_long}
use Rattle.kc_expr.proofs.node_store.NodeStore.insert_name.Goals as goal

placed : (c : goal.In_ok-index) → index_of_name c.args.name.now (map string_bytes c.insert_full.new.self.keys) ≡ Some c.in_ok-index.index
placed c =
    let v = c.in_ok-from_str.field-0 in
    ap (λ (x : List ℕ). index_of_name x (map string_bytes c.insert_full.new.self.keys)) (sym c.in_ok-from_str.ensures.ok)
    ∙ ap (λ (ks : List (String Global)). index_of_name (string_bytes v) (map string_bytes ks)) c.in_ok-index.ensures.keys
    ∙ place_pushed string_bytes (string_bytes v) v refl c.args.self.now.names.keys
    ∙ ap Some (sym c.in_ok-index.ensures.index)

extended : (c : goal.In_ok-index) → Extends c.args.self.now (record c.args.self.now { names = c.insert_full.new.self })
extended c =
    let v = c.in_ok-from_str.field-0 in
    record {
      names = rw c.in_ok-index.ensures.keys (pushed_prefix (list_any (λ k. bytes_eq (string_bytes v) (string_bytes k)) c.args.self.now.names.keys)
          c.args.self.now.names.keys v);
      texts = take-length c.args.self.now.texts.items;
      nodes = take-length c.args.self.now.nodes.items;
    }

pub returns : goal.returns
returns c = record {
  sound = (let v = c.in_ok-from_str.field-0 in
      let distinct : AreDistinct (map string_bytes c.insert_full.new.self.keys) =
      subst (λ (ks : List (String Global)). AreDistinct (map string_bytes ks)) (sym c.in_ok-index.ensures.keys)
      (distinct_pushed string_bytes (string_bytes v) v refl c.args.self.now.names.keys c.requires.sound.distinct) in
      let few : length c.insert_full.new.self.keys ≤ 2 ^ 32 =
      omega (
        arith,
        ap length c.in_ok-index.ensures.keys,
        pushed_long (list_any (λ k. bytes_eq (string_bytes v) (string_bytes k)) c.args.self.now.names.keys)
            c.args.self.now.names.keys v,
        c.in_ok-index_of_32_bits.ensures.below,
        c.len.ensures,
      ) in
      sound_on c.args.self.now (record c.args.self.now { names = c.insert_full.new.self }) c.requires.sound (extended c) refl distinct few);
  extends = extended c;
  place = placed c;
  within = (place_there _ _ _ (placed c)).0;
  name = (place_there _ _ _ (placed c)).1;
  names = (let v = c.in_ok-from_str.field-0 in
      ap (λ (ks : List (String Global)). map string_bytes ks) c.in_ok-index.ensures.keys
      ∙ names_pushed string_bytes (string_bytes v) v refl c.args.self.now.names.keys
      ∙ ap (λ (x : List ℕ). with_name x (map string_bytes c.args.self.now.names.keys)) c.in_ok-from_str.ensures.ok);
  texts = grind (arith, common_steps);
  nodes = grind (arith, common_steps);
  memory = omega arith;
  err = omega arith;
}

pub returns-in_err-index_of_32_bits : goal.returns-in_err-index_of_32_bits
returns-in_err-index_of_32_bits c = record {
  sound = c.requires.sound;
  extends = extends_self c.args.self.now;
  place = search rules;
  within = search rules;
  name = search rules;
  names = search rules;
  texts = grind (arith, common_steps);
  nodes = grind (arith, common_steps);
  memory = grind (arith, common_steps);
  err = search rules;
}

pub returns-in_err-from_str : goal.returns-in_err-from_str
returns-in_err-from_str c = record {
  sound = c.requires.sound;
  extends = extends_self c.args.self.now;
  place = search rules;
  within = search rules;
  name = search rules;
  names = search rules;
  texts = grind (arith, common_steps);
  nodes = grind (arith, common_steps);
  memory = grind (arith, common_steps);
  err = search rules;
}

pub returns-in_err-index : goal.returns-in_err-index
returns-in_err-index c = record {
  sound = grind (arith, common_steps);
  extends = grind (arith, common_steps);
  place = search rules;
  within = search rules;
  name = search rules;
  names = search rules;
  texts = grind (arith, common_steps);
  nodes = grind (arith, common_steps);
  memory = grind (arith, common_steps);
  err = grind (arith, common_steps);
}

pub overflow_cast-result : goal.overflow_cast-result
overflow_cast-result c = grind (arith, common_steps)
