mod KnownStores
