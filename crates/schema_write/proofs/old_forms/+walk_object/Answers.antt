use Rattle.schema_write.proofs.OldLemmas.{collection_ok}
use Rattle.schema_write.proofs.old_forms.+walk_object.Goals as goal

pub walk_object-returns-in-Collection-clause-ok : goal.walk_object-returns-in-Collection-clause-ok
walk_object-returns-in-Collection-clause-ok t c =
    collection_ok c.walk_objects.result c.args.object.now c.in-Collection.collection
    c.as_slice.result.now c.in-Collection.is c.as_slice.ensures c.walk_objects.ensures.ok
